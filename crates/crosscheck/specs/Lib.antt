pub mod FormulaLines
