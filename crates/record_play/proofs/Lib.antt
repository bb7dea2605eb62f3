pub mod Rising
pub mod Sorting
pub mod Placing
pub mod Listing
pub mod Filing
pub mod Refusing
pub mod Left
pub mod Played
