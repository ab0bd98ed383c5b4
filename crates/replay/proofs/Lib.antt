-- The laws of reading a plan with what stands in arrays.
pub mod Follow
pub mod MovesFollow
pub mod JoinFollow
pub mod NetFollow
pub mod Parts
pub mod Walking
pub mod Joining
pub mod Kept
pub mod Recording
pub mod Netting
pub mod Tails
pub mod Wholes
