pub mod ModeTimes
