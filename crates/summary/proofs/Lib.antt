pub mod BadnessFits
pub mod TallyRowByRow
