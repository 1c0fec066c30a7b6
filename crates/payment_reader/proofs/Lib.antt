pub mod Entries
pub mod Follows
pub mod Keys
pub mod Legal
pub mod Members
pub mod ReadsBack
pub mod Texts
pub mod WrittenLemmas
