pub mod Panels
pub mod Rectangles
pub mod Fills
pub mod Marks
pub mod Scale
pub mod PictureText
pub mod Laws
