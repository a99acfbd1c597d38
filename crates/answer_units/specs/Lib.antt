pub mod ExpressionScales
pub mod QueryScales
pub mod Scales
pub mod Units
