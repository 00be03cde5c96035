mod NameLemmas
mod ShelfLemmas
mod ScriptLemmas
mod LogLemmas
mod ReplayLemmas
mod CallLemmas
