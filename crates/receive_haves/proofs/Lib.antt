pub mod HaveLaws
