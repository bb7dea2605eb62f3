pub mod Fit
pub mod Shown
pub mod Amounts
pub mod Dirty
pub mod Calls
pub mod Changes
