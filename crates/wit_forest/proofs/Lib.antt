mod MemberLemmas
mod WalkLemmas
mod KidRangeLemmas
mod CompleteLemmas
mod TellLemmas
mod AgreeLemmas
mod PartLemmas
mod NodeLemmas
mod ExploredLemmas
mod LargeLemmas
mod ValueLemmas
mod QuantifierLemmas
mod AddLemmas
mod StateLemmas
mod GrowLemmas
mod DoneLemmas
mod LoopLemmas
mod ShownLemmas
mod ReadyLemmas
mod GatherLemmas
mod VisitLemmas
mod HiddenLemmas
pub mod WitOrder
pub mod WitTrees
pub mod WitSteps
pub mod ReachLaws
