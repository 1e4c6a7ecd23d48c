mod CallLaws
mod Counts
mod Events
mod LeftLaws
pub mod Lemmas
mod Measure
mod MoveLaws
mod OpLaws
mod PlainLaws
mod QuickLaws
mod Sim
mod SimCalls
mod SimCode
mod SimStart
mod Stack
mod Ways
