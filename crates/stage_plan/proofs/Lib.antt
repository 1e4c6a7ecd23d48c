mod Clusters
mod KeptKeys
mod KeyMaps
mod Keys
mod Least
pub mod Lemmas
mod Meetings
mod Spots
mod Walks
