use Rattle.rule_chain.proofs.CutLemmas.{same_pieces}
use Rattle.rule_chain.proofs.OnceLemmas.{HaveOneCut}
use Rattle.rule_chain.proofs.TidyOnceLemmas.{HaveOneLayout}
use Rattle.rule_chain.proofs.ChainOnceLemmas.{chain_once}
use Rattle.rule_chain.proofs.laws.chain_has_one_end.Goals as goal

pub returns : goal.returns
returns c = λ tidy rules defined bytes end other one two.
    let cut : HaveOneCut = λ a b h k text ids. same_pieces a b (c.cut_once.ensures.but_ids a b h k text) ids in
    let layout : HaveOneLayout = record {
      made = c.witnesses_have_one_tidied_list.ensures;
      frames = c.edits_have_one_layout.ensures.frames;
      apart = c.edits_have_one_layout.ensures.apart;
      broken = c.edits_have_one_layout.ensures.broken;
    } in
    chain_once c.witnesses_have_one_list.ensures layout cut c.read_once.ensures c.shown_once.ensures tidy defined c.cut_once.ensures.whole rules bytes end other
    one two
