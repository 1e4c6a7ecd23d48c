pub mod Lemmas
mod RunLaws
mod Sound
mod SoundCalls
mod SoundStart
mod Spends
mod Sums
