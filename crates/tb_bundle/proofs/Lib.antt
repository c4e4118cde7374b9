pub mod AllCases
pub mod DetailPart
pub mod GoodBundle
pub mod Wholes
