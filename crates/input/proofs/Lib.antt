pub mod NumbersBehind
