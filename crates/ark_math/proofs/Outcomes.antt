-- What code answers: tests that decide a fact, results, values that are drawn one after another.
pub mod Results
pub mod Tests
pub mod Draws
