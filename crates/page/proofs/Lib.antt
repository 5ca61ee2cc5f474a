pub mod RoundedClose
pub mod ThreeRoundings
pub mod NearlyExact
