use Rattle.text_laws.proofs.PlusLaws.RuleLemmas.{patch_code, whole_code}
use Rattle.text_laws.proofs.plus_laws.laws.read_plus_code_is_sound.Goals as goal

pub returns : goal.returns
returns c =
    let law = c.blank_texts.ensures in
    let whole = c.patches_are_sound.ensures.whole in
    record {
      read = λ bytes patch s. patch_code law bytes patch s (whole bytes patch s);
      forms = λ bytes isos patch expanded s is. whole_code isos patch expanded is (patch_code law bytes patch s (whole bytes patch s));
    }
