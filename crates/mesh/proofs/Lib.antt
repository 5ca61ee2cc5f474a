pub mod TurnedFaces
pub mod FacesCounted
pub mod MeshRuleStated
pub mod EvenFaces
pub mod TablesAlike
pub mod OneWay
