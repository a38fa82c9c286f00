-- Quadratic extensions over plain variables, with their laws; the extension's elements, with
-- theirs.
pub mod Quadratics
pub mod QuadraticLaws
pub mod Elements
pub mod ElementLaws
pub mod ElementBytes
pub mod TowerLaws
pub mod RootLaws
