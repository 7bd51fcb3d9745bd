pub mod BothKinds
pub mod ReportLaws
pub mod RunLaws
pub mod SlotLaws
pub mod SlotSteps
pub mod StepLaws
pub mod Values
