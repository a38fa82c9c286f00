-- Lists of words as the numbers of a field's elements, what calls ask of them and leave, the error of a call, and examples.
pub mod Numbers
pub mod Codes
pub mod Faults
pub mod Examples
pub mod Products
pub mod Extensions
pub mod ExtensionExamples
pub mod Weights
pub mod Decoders
pub mod Interpolations
pub mod Parts
pub mod Values
