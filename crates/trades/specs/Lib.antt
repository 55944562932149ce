pub mod Trades
