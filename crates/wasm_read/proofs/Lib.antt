mod CodeLaws
mod CodeSteps
mod Exact
mod Exits
mod Laws
pub mod Lemmas
mod ModuleLaws
mod ModuleSteps
mod Names
mod OpLaws
mod Opcodes
mod Powers
mod RowSteps
