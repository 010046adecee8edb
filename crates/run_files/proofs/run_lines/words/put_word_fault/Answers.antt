use Rattle.std.proofs.Common.{◌≡◌, ◌∙◌, ◌++◌, ap, ℕ, List, codes, append_assoc}
use Rattle.std.specs.Fmt.{decimal}
use Rattle.std.proofs.lemmas.Result.{on_ok_weaker}
use Rattle.outer_io.specs.EscapedNames.Escapes.{escaped_name}
use Rattle.run_words.specs.OptionNames.{option_text}
use Rattle.run_files.specs.RunLines.Words.{meant_text}
use Rattle.run_files.proofs.WordLines.{five_texts}
use Rattle.run_files.proofs.run_lines.words.put_word_fault.Goals as goal

pub returns-in_ok-put_numbered-in-NotText : goal.returns-in_ok-put_numbered-in-NotText
returns-in_ok-put_numbered-in-NotText c =
    let line = c.args.line.now in
    let front = codes "word " ++ decimal c.in-NotText.place in
    rw c.in-NotText.is (on_ok_weaker c.put.result
    (λ h. h ∙ (ap (λ (l : List ℕ). l ++ codes " isn't UTF-8") (c.in_ok-put_numbered-in-NotText.ensures
    ∙ append_assoc line (codes "word ") (decimal c.in-NotText.place)) ∙ append_assoc line front (codes " isn't UTF-8"))) c.put.ensures)

pub returns-in_ok-put_word-in-NoSuchOption : goal.returns-in_ok-put_word-in-NoSuchOption
returns-in_ok-put_word-in-NoSuchOption c =
    let line = c.args.line.now in
    let meant = meant_text c.in-NoSuchOption.meant in
    rw c.in-NoSuchOption.is (on_ok_weaker c.put_meant.result
    (λ h. h ∙ (ap (λ (l : List ℕ). l ++ meant) (c.in_ok-put_word-in-NoSuchOption.ensures
    ∙ ap (λ (w : List ℕ). line ++ (escaped_name w ++ codes ": no such option")) c.as_bytes.ensures.bytes)
    ∙ append_assoc line (escaped_name c.in-NoSuchOption.word ++ codes ": no such option") meant)) c.put_meant.ensures)

pub returns-in-ValueAbsent : goal.returns-in-ValueAbsent
returns-in-ValueAbsent c = rw c.in-ValueAbsent.is (on_ok_weaker c.put_word-in-ValueAbsent.result
    (λ h. h ∙ ap (λ (w : List ℕ). c.args.line.now ++ (escaped_name w ++ codes ": its value is absent")) c.as_bytes-in-ValueAbsent.ensures.bytes)
    c.put_word-in-ValueAbsent.ensures)

pub returns-in-TakesNone : goal.returns-in-TakesNone
returns-in-TakesNone c = rw c.in-TakesNone.is (on_ok_weaker c.put_word-in-TakesNone.result
    (λ h. h ∙ ap (λ (w : List ℕ). c.args.line.now ++ (escaped_name w ++ codes ": takes no value")) c.as_bytes-in-TakesNone.ensures.bytes)
    c.put_word-in-TakesNone.ensures)

pub returns-in-StandsTwice : goal.returns-in-StandsTwice
returns-in-StandsTwice c = rw c.in-StandsTwice.is (on_ok_weaker c.put_word-in-StandsTwice.result
    (λ h. h ∙ ap (λ (w : List ℕ). c.args.line.now ++ (escaped_name w ++ codes ": stands twice")) c.as_bytes-in-StandsTwice.ensures.bytes)
    c.put_word-in-StandsTwice.ensures)

pub returns-in_ok-put-in-BadValue-2 : goal.returns-in_ok-put-in-BadValue-2
returns-in_ok-put-in-BadValue-2 c =
    let line = c.args.line.now in
    let option = option_text c.in-BadValue.option in
    let value = escaped_name c.in-BadValue.value in
    let tail = codes " is no value for it" in
    let first : c.put-in-BadValue.new.self ≡ line ++ option =
    c.in_ok-put-in-BadValue.ensures ∙ ap (λ (t : List ℕ). line ++ t) (c.as_bytes-in-BadValue.ensures.value ∙ c.text.ensures.text) in
    let second : c.put-in-BadValue-2.new.self ≡ line ++ option ++ codes ": " =
    c.in_ok-put-in-BadValue-2.ensures ∙ ap (λ (l : List ℕ). l ++ codes ": ") first in
    rw c.in-BadValue.is (on_ok_weaker c.put_word-in-BadValue.result
    (λ h. h ∙ (ap (λ (w : List ℕ). c.put-in-BadValue-2.new.self ++ (escaped_name w ++ tail)) c.as_bytes-in-BadValue-2.ensures.bytes
    ∙ (ap (λ (l : List ℕ). l ++ (value ++ tail)) second ∙ five_texts line option (codes ": ") value tail))) c.put_word-in-BadValue.ensures)

pub returns-in-ApartFromFiles : goal.returns-in-ApartFromFiles
returns-in-ApartFromFiles c = rw c.in-ApartFromFiles.is c.put_apart-in-ApartFromFiles.ensures
