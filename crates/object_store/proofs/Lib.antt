pub mod Lemmas
mod Resolving
mod Showing
mod SmallForms
mod SmallHosted
