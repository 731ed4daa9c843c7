pub mod FreshFlow
pub mod Loading
