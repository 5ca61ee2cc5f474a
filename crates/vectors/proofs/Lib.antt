pub mod RecordsCounted
