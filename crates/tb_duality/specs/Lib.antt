pub mod MeanValues
pub mod Wall
