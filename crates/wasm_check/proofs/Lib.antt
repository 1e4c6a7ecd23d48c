mod CheckLaws
mod CodeSteps
mod Constants
mod Distinct
mod FunctionLaws
pub mod Lemmas
mod LinkLaws
mod OutsideLaws
mod Passed
