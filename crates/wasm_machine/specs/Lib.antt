pub mod Behaves
pub mod Frames
pub mod Lending
pub mod Machine
pub mod Numbers
pub mod MachineState
pub mod Quick
pub mod Says
