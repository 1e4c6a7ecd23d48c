-- Stores in order.
use Rattle.std.proofs.Common.{ℕ, List, [], ◌∷◌, inl, inr}
use Rattle.edge_io.specs.Contents.{Contents}
use Rattle.command_io.specs.Counts.{HasCause}
use Rattle.command_io.specs.Product.{File, Job}
use Rattle.command_io.specs.Left.{StoresPrefix, StoresTorn, StoresAll}
use Rattle.command_io.specs.declared.status.Status.{Status}
use Rattle.command_io.specs.declared.status.Status.TheVariants.{Done, Fault, NoMemory}

prefix_first : (job : Job) (jobs : List Job) (old new : Contents) → StoresPrefix (job ∷ []) old new → StoresPrefix (job ∷ jobs) old new
prefix_first job jobs old new (inl h) = inl h
prefix_first job [] old new (inr h) = inr h
prefix_first job (next ∷ jobs) old new (inr h) = inr (inl h)

torn_first : (name : List ℕ) (job : Job) (jobs : List Job) (old new : Contents) → StoresTorn name (job ∷ []) old new → StoresTorn name (job ∷ jobs) old new
torn_first name job jobs old new (inl h) = inl h
torn_first name job jobs old new (inr h) = absurd h

-- a store that stopped stops all
pub stopped : (status : Status) (job : Job) (jobs all : List Job) (start old new : Contents) → ((c : Contents) → StoresPrefix (job ∷ jobs) old c → StoresPrefix all start c) → ((name : List ℕ) (c : Contents) → StoresTorn name (job ∷ jobs) old c → StoresTorn name all start c)
    → (files : List File) (counts later : ℕ → ℕ) → HasCause files counts later status → StoresAll status (job ∷ []) old new → StoresAll status all start new
stopped Done job jobs all start old new prefix torn files counts later cause h = absurd cause
stopped (Fault name) job jobs all start old new prefix torn files counts later cause h = torn name new (torn_first name job jobs old new h)
stopped NoMemory job jobs all start old new prefix torn files counts later cause h = prefix new (prefix_first job jobs old new h)
stopped status job jobs all start old new prefix torn files counts later cause h = h
