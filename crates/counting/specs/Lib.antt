pub mod Count
pub mod Lists
