pub mod CommonLaws
pub mod HeadLaws
pub mod TimingLaws
pub mod PackLaws
pub mod SetupLaws
