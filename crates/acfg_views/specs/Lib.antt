pub mod Fields
pub mod Layout
pub mod Reading
pub mod Tests
pub mod Views
pub mod Parts
