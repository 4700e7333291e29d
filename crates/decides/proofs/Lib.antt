pub mod DemandOne
