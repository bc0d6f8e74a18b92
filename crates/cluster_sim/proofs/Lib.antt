pub mod Acts
mod Asks
pub mod BelowLaws
mod Delivered
pub mod Drifted
pub mod Events
mod Floors
pub mod Gates
mod Grants
mod HostLemmas
mod Hosts
pub mod Lines
pub mod Lone
mod Lost
pub mod OkLemmas
mod Opening
pub mod Owners
mod Played
mod Proposals
mod Records
pub mod Refinement
mod Reporting
pub mod Reports
mod RoundLaw
mod RoundPlay
mod RoundReports
pub mod Runs
mod Seqs
mod Servers
pub mod Shape
pub mod Sizes
pub mod Sound
pub mod Spelled
mod Starts
mod Sweeps
pub mod Tells
mod Turns
mod Unique
mod VoteDrifts
pub mod VoteGates
pub mod VoteSteps
mod Waves
