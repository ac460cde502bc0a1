-- What counting by inversions promises, and the laws of it.
pub mod FigureCounting
pub mod FigureMeasuring
