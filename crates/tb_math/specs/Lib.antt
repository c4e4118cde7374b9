pub mod Integers
pub mod Fraction
pub mod FractionEquality
pub mod Rational
pub mod Sums
pub mod Ceiling
pub mod Division
