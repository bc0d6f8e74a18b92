-- The definitions of the hashes, which the computation of a MAC unfolds.
pub use Rattle.sha1.specs.Sha1 as sha1_steps
pub use Rattle.sha2.specs.Sha256 as sha256_steps
pub use Rattle.sha2.specs.Sha512 as sha512_steps
