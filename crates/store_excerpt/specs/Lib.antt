pub mod Board
pub mod Excerpt
pub mod Laws
pub mod StoreView
