pub mod Put
pub mod Lines
pub mod TotalLines
pub mod Program
pub mod TotalProgram
