pub mod HowWired
