mod Editing
mod Holding
mod KeyLaws
mod Measuring
