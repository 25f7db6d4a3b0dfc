-- What `make_plan` promises.
pub mod Plans
