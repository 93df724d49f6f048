pub mod ChartText
