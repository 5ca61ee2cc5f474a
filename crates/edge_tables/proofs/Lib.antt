pub mod EdgeTabled
