pub mod Rounds
pub mod Asking
pub mod Serving
pub mod Statuses
pub mod Printing
pub mod Ends
pub mod Running
pub mod Listening
