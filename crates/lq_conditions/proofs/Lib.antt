mod Keeping
mod Numbers
mod FineStates
mod WalksOn
mod FineStatements
mod ConditionsThere
mod ProgramsThere
mod ClassNumbers
mod FormedSorted
pub mod worked
