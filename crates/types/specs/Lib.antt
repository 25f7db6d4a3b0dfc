-- What the types' promises cite. Words in double quotes are the paper's.
pub mod Numbers
