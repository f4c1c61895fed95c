-- The lemmas that the functions' proofs share.
pub mod GrantLaws
pub mod WalkLaws
pub mod QuestionLaws
pub mod SoundLaws
pub mod RunLaws
pub mod TestLaws
pub mod RingLaws
pub mod OrderTestLaws
pub mod ComputedLaws
pub mod RowLaws
pub mod TriedLaws
pub mod WrongLaws
