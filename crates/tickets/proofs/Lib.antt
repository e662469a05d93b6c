pub mod CsrSamples
pub mod FenceSamples
pub mod Samples
