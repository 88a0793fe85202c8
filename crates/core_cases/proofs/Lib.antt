mod ArgumentsCases
mod CallsCases
mod DataChangesCases
mod GroupsCases
mod InsideCases
mod LogicCases
mod SelectsCases
