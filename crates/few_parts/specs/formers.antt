pub mod few
