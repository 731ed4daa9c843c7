pub mod View
pub mod Lists
