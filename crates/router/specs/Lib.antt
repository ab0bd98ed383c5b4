pub mod Room
pub mod Sizing
pub mod Replay
pub mod Report
pub mod Calls
pub mod Routing
pub mod Held
pub mod Marked
