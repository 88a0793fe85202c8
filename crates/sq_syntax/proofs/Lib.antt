pub mod Equations
mod Worked
mod WorkedSchemas
mod WorkedStatements
